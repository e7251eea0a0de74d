pub mod WordsChain
pub mod WordsDemand3
pub mod WordsEdits
pub mod WordsPeaks
pub mod WordsPages
