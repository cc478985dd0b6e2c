pub mod WriterLemmas
pub mod WrittenLaws
pub mod DatasWritten
pub mod ElementsWritten
pub mod BytesWritten
