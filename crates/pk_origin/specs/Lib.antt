pub mod Texts
pub mod Markers
pub mod Origins
pub mod Laws
