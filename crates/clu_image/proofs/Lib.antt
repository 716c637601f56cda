pub mod FileLemmas
pub mod FileOfContents
pub mod ContentsOfFile
pub mod ReadLaws
