pub mod Listed
pub mod NumberLaws
pub mod FieldLaws
pub mod RoundTrip
