pub mod Joinings
pub mod Beside
pub mod Laminated
pub mod Contents
pub mod Razed
pub mod Stitched
