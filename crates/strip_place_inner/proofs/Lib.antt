-- Laws of looking for a reading on a strip (Looking).
pub mod Looking
