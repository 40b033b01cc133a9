-- Readings that none of their own turns comes near (Steady), that of another's turns at most one does (OneTurn), and the turn that comes nearest (Nearest).
pub mod Steady
pub mod OneTurn
pub mod Nearest
