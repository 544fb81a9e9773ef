-- Definitions that only private clauses use.
pub mod ClapStatus
pub mod NameList
pub mod Parts
pub mod AnyCodeList
pub mod KindList
pub mod ShowWords
pub mod ChannelList
pub mod Links
pub mod MomentText
pub mod OptionTexts
pub mod ConvertWords
pub mod ChartWords
pub mod CutWords
pub mod SystemLetters
pub mod LabelWords
pub mod AutoWords
