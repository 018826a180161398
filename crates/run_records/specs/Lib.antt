pub mod RecordTexts
