pub mod Waveform
pub mod Filled
