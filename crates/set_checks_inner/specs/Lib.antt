-- What the check of the distance and the wanted number promises (Says).
pub mod Says
