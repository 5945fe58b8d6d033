mod ShardLaws
pub mod ListLaws
mod ValueLaws
pub mod ArrivalLaws
pub mod CommonDivisorLaws
mod WideLaws
mod ReducedLaws
pub mod LongDecimalLaws
pub mod VarianceLaws
pub mod DecimalsDocumentLaws
mod ReducedFractionLaws
mod SchemaReadingLaws
mod GroupingReadingLaws
pub mod GroupingLaws
pub mod SchemaSpellingLaws
mod FeedDocumentLaws
mod SchemaLaws
pub mod AmendmentLaws
pub mod ItemLaws
pub mod LevelLaws
pub mod PercentileSpellingLaws
pub mod LifeLaws
pub mod TextNumberLaws
pub mod TextRowLaws
pub mod CubeSchemaLaws
pub mod RefusalLaws
pub mod KeyOrderLaws
pub mod AncestorLaws
pub mod CellKeyLaws
pub mod SetLaws
pub mod QueryLaws
mod PartialFormLaws
pub mod SufficesLaws
pub mod PlainLaws
pub mod ReorderedLaws
pub mod TextPlaceLaws
pub mod TextSchemaLaws
pub mod TextsDocumentLaws
