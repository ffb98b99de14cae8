-- What a command answers and writes: its words, the report over the readings of a world and a log and over what is judged,
-- what is judged, and the cause of each status. What is proved of these stands in model_report_laws.
pub mod Query
pub mod Task
pub mod Command
pub mod Told
pub mod Checked
pub mod Judged
pub mod Replay
pub mod Answer
pub mod Report
pub mod Causes
pub mod Given
