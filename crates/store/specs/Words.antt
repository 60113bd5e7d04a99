-- What a fault says to people.
use Rattle.std.specs.Prelude.{ℕ, List, ◌++◌, codes, decimal}
use Rattle.store.specs.declared.fault.StoreFault.{StoreFault}
use Rattle.store.specs.declared.fault.StoreFault.TheVariants.{NoPage, BadBuffer}

-- The page is told in decimal.
abbrev pub fault_text : StoreFault → List ℕ
fault_text (NoPage p) = codes "there is no page " ++ decimal p
fault_text (BadBuffer p) = codes "the buffer for page " ++ decimal p ++ codes " is not 64 bytes long"
