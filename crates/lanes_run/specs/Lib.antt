pub mod Asked
pub mod Buffered
pub mod Complete
pub mod Ended
pub mod Judged
pub mod Judging
pub mod RanLanes
