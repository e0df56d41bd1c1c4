pub mod Plays
pub mod CountedLines
pub mod CountedTexts
pub mod Drives
pub mod HeardLines
pub mod CountedChecks
pub mod LightLines
