pub mod JsonTexts
pub mod OtherKeys
