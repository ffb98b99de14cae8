-- What rows exclude, and the states after logs.
pub mod Never
pub mod AfterLogs
