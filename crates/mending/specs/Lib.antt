pub mod FirstYear
pub mod Mended
