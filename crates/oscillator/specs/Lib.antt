pub mod Oscillator
