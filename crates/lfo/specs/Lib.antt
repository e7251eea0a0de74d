pub mod Lfo
