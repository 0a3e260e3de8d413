pub mod Storage
pub mod Framing
pub mod Gcd
pub mod ResidueLaws
pub mod Checked
pub mod PowerLaws
pub mod MultipleLaws
pub mod BitLaws
