-- The theorems about the report. In order: only the first bytes of a line tell (Kept), however an input is cut (Cut), how long the report's lines are (Room). What
-- holds of every stream of lines: `stream_spec`.
pub mod Kept
pub mod Cut
pub mod Room
