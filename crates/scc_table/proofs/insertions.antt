pub mod Answered
pub mod AtEnds
pub mod CurrentArray
pub mod FreeBucket
pub mod OneList
pub mod Places
pub mod Room
