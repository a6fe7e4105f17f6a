-- An answer and the parts of both records are told apart by what they say together: so `next_by` has one outcome.
use Rattle.prelude.proofs.Prelude.{◌≡◌, ap}
use Rattle.element_pass.specs.Pass.{Passed}
use Rattle.profile_read.{specs.declared.Judged.Judged, specs.Profile.Either, proofs.One.Parts, proofs.One.Equal, proofs.One.line_of, proofs.One.trunk_of, proofs.One.one_either}
use Rattle.profile_pass.specs.{declared.NextBy.NextBy, Passing.next_in}

abbrev passed_in : NextBy → Parts → Passed Either
passed_in r p = next_in r (line_of p) (trunk_of p)

pub one_next_by : (p q : Parts) (r r' : NextBy) → passed_in r p ≡ passed_in r' q → (r ≡ r') × Equal p q
one_next_by p q r r' e =
    let o = one_either p q r.answer r'.answer (ap (λ (x : Passed Either). x.answer) e) in
    let judged : Either → Judged = λ x. record { number = x.number; offset = x.offset; family = x.family } in
    (ap (λ (x : Passed Either). record { after = x.after; ended = x.ended; answer = judged x.answer }) e, o.1)
