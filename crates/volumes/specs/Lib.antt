pub mod Volume
pub mod Writer
pub mod Reader
pub mod Stream
