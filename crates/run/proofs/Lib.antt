-- laws of buffers and levels
pub mod PatchLaws
pub mod PartLaws
pub mod LevelLaws
pub mod PackLaws
-- records
pub mod RecordLaws
pub mod ScanCells
pub mod StartRecords
-- the calls' answers
pub mod StartLaws
pub mod Starts
pub mod ContinueLaws
pub mod PictureLaws
pub mod PictureAnswers
-- the demands
pub mod Started
pub mod StartLevels
pub mod SameStarts
pub mod Demand2
pub mod Demand3
pub mod StarredRuns
