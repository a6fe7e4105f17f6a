-- What an export that reads an account promises.
use Rattle.std.specs.Prelude.{◌≡◌, List}
use Rattle.account.specs.declared.Account.{Account}
use Rattle.phases.specs.Phases.{Given}
use Rattle.account.specs.History.{judged, account_by}

-- the account's one answer, and over every list of events the answer of the rules
abbrev pub ReadsOff : {R : Type 0} → Account → R → (List Given → R) → R → Type 0
ReadsOff a x rule r = (r ≡ x) × ((h : List Given) → a ≡ account_by (judged h) → r ≡ rule h)
