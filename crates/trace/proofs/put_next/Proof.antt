use Rattle.prelude.proofs.Prelude.{arith, ◌≡◌, ◌+◌, sym, eq-eqb, ne_eqb}
use Rattle.trace_framing.{specs.Framing.message, specs.Framing.type_place, proofs.Laws.framed_head}
use Rattle.trace_messages.{specs.Trace.components_after, specs.Trace.laid_out, specs.Trace.of_call, proofs.Walk.message_is, proofs.Walk.message_fits}
use Rattle.trace.proofs.{Laying.puts_none, Laying.rooms_as, Laying.puts_as, put_next.Statement.statement}
use Rattle.trace.proofs.put_next.Tie as tie

-- the function's start, from where the message is known to be the call's
abbrev start : tie.Else-reference_of-call → tie.Start
start i = i.before.before.before.before.before

-- where it is known which events are given and where the elements begin, those are the message's
module _ (w : tie.After-wide-start) where
  abbrev ours : tie.Else-reference_of-call
  ours = w.before.before.before.before

  place : 3 + w.wide-start.result ≡ type_place (start ours).args.s.now + 1
  place = omega (arith, w.wide-start.ensures.0)

  events : let x = (start ours).args in
      laid_out w.before.before.gives_of-g.result (components_after x.s.now (3 + w.wide-start.result))
      ≡ of_call x.call x.cleared (message x.s.now x.network)
  events =
      let g = w.before.before in
      rw (← ours.before.reference_of.ensures, eq-eqb _ _ ours.if-reference_of-call.false)
      (message_is (start ours).args.s.now _ _ g.before.type_of.ensures g.gives_of-g.ensures place)

pub put_next_spec : {M : Type 1} → statement M
put_next_spec =
    tie.close
    (tie.spec (λ c κs. c.before.before.before.requires.0) (λ c. rw (← c.before.reference_of.ensures, ne_eqb _ _ c.if-reference_of-call.true) (puts_none _ _ _))
    (λ c κs. (start c).requires.0) (omega arith)
    (λ c. let s = start c.before.before.before in omega (arith, (framed_head s.args.s.now s.requires.0).0)) (omega arith) (omega arith)
    (λ c κs. let w = c.before.before in let s = start (ours w) in (message_fits s.args.s.now s.requires.0 (place w), rooms_as (sym (events w)) s.requires.1))
    (omega arith) (omega arith) (λ c. let p = c.before.before.before.before in puts_as (events p.before.before.before) p.put_all.ensures))
