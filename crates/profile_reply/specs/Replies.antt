-- The reject sent in reply to a component, by its profile octet: 17 and nothing written for another octet than 91 and 9F, before all else.
use Rattle.std.specs.Prelude.{ℕ, ◌&&◌, cond, List, eqb}
use Rattle.trunk_types.specs.Components.{read_trunk}
use Rattle.write.specs.declared.Written.{Written}
use Rattle.write.specs.Outcome.{no}
use Rattle.reply_rules.specs.Rejects.{first_of}
use Rattle.reply.specs.Reply.{reply_given, left_given, reply_of, reply_left}

-- the number that calls for a reject: a network facility extension's failures inside draw none
abbrev pub called_for : ℕ → ℕ → ℕ
called_for number first = cond (eqb first 0xaa && eqb number 6) 0 number

abbrev pub trunk_calls : List ℕ → ℕ
trunk_calls s = called_for (read_trunk s).number (first_of s)

unfoldable pub reply_profile : ℕ → List ℕ → ℕ → Written
reply_profile profile s room = cond (eqb profile 0x91) (reply_of s room) (cond (eqb profile 0x9f) (reply_given (trunk_calls s) s room) (no 17))

unfoldable pub left_profile : ℕ → List ℕ → List ℕ → List ℕ
left_profile profile s before = cond (eqb profile 0x91) (reply_left s before) (cond (eqb profile 0x9f) (left_given (trunk_calls s) s before) before)
