-- `ffi::packed_page` meets its contract. Assumes nothing.
use Rattle.ffi.proofs.Cases.{page_done, page_refused}
use Rattle.ffi.proofs.packed_page.Goals as goal

pub returns-in-Ok : goal.returns-in-Ok
returns-in-Ok c = page_done _ _ _ c.in-Ok.is c.word_of.ensures

pub returns-in-Err : goal.returns-in-Err
returns-in-Err c = page_refused _ _ _ c.in-Err.is c.packed.ensures
