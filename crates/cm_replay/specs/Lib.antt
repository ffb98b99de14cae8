-- What the contracts on the replay of a log cite beside the definitions.
pub mod Shown
pub mod Told
pub mod Replay
pub mod Following
pub mod Untold
pub mod Coming
