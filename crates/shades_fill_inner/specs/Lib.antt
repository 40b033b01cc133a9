-- What filling asks for (Fillable).
pub mod Fillable
