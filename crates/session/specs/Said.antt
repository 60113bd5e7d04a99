-- What the words of a command say.
use Rattle.std.specs.Prelude.{◌≡◌}
use Rattle.refusal.specs.Numbers.{number}
use Rattle.session.specs.declared.said.Unsaid.{Unsaid}
use Rattle.session.specs.declared.said.Unsaid.TheVariants.{Refused, Unreadable, OutOfMemory}

-- Words are refused for one reason alone, a number that is off its axis.
abbrev pub OffAxisAlone : Unsaid → Type 0
OffAxisAlone (Refused why) = number why ≡ 3
OffAxisAlone (Unreadable why) = Unit {0}
OffAxisAlone (OutOfMemory error) = Unit {0}
