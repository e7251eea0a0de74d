-- 01's worked examples, in the order to read them.
-- the levels of (i) and (j), over 4,098 samples
pub mod Levels
-- all worked examples hold
pub mod Examples
-- what a front panel is told
pub mod Panel
