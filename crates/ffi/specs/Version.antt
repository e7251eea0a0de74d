-- The version of what C sees. It grows with every new call, every change of a call's arguments and every change of the
-- number of words of a state, so a host and a library with the same number fit each other. include/gavberin.h has the
-- number as GAV_VERSION, and the shared library's name carries it (libgavberin.so.5). Definitions only.
use Rattle.std.specs.Prelude.{ℕ}

-- version 1: seven settings, and a state of twelve words; version 2, with 02's R-7: eleven, and thirteen words; version
-- 3, with R-9: twelve settings; version 4, with R-3: render and re-render are lent a summary; version 5, with R-6: a
-- page of edits
abbrev pub version : ℕ
version = 5
