pub mod Origins
pub mod Lines
pub mod Amounts
pub mod Ignored
