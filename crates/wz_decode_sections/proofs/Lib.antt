pub mod ProductionLaws
pub mod TypeFormLaws
pub mod ItemLaws
pub mod SegmentLaws
pub mod ReaderLemmas
pub mod SpanLemmas
pub mod PayloadLaws
