-- What holds of every run, in the order to read it.
-- `listed`: its length, its elements, cut anywhere, and equal where the functions agree
pub mod Listed
-- a run: one step more, cut anywhere, what every step keeps, and two runs side by side
pub mod Laws
-- the first number that passes a test: none before it passes, it is the only one, and how a search finds it
pub mod First
