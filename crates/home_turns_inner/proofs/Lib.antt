-- What the loops rest on, over plain lists: turns place by place (Places), comparing two readings sector by sector (Rests).
pub mod Places
pub mod Rests
