-- From what is placed to what an input prints (Ready).
pub mod Ready
