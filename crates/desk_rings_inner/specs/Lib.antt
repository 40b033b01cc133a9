-- What reading rings and a reading behind them promises (Says).
pub mod Says
