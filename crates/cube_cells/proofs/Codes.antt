-- Laws of codes, keys, and the order of keys.
pub mod CodeLaws
pub mod DictionaryLaws
pub mod KeyLaws
pub mod GrowthLaws
pub mod RankLaws
pub mod TextLaws
pub mod WordLaws
pub mod RankingLaws
