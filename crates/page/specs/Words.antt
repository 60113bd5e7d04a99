-- What a fault says to people.
use Rattle.std.specs.Prelude.{ℕ, List, ◌++◌, codes, decimal}
use Rattle.store.specs.Words.{fault_text as storeText}
use Rattle.page.specs.declared.fault.PageFault.{PageFault}
use Rattle.page.specs.declared.fault.PageFault.TheVariants.{Store, Kind, Field}

-- The page is told in decimal, and a store's fault in the store's own words.
abbrev pub fault_text : PageFault → List ℕ
fault_text (Store f) = storeText f
fault_text (Kind p) = codes "page " ++ decimal p ++ codes " is of another kind than expected"
fault_text (Field p) = codes "page " ++ decimal p ++ codes " has a field that is wrong"
