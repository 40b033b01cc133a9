-- What the search starts from (Ready), and which places of a prenecklace can be raised (Places). These serve the code alone.
pub mod Ready
pub mod Places
