pub mod ByteLaws
pub mod FrameLaws
pub mod PixelLaws
pub mod SamePixelsLaws
