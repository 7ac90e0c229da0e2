-- What leaves the display as it was.
use mathlib.Core.Logic.{◌⊎◌, inl, inr}
use mathlib.Core.Path.{◌≡◌, ap, ◌∙◌}
use Rattle.message.specs.Builder.{Call}
use Rattle.message.specs.Outcomes.{done}
use Rattle.board.specs.declared.record.Board.{Board}
use Rattle.responder.specs.Reply.{served, reply}
use Rattle.responder.specs.declared.respond.Served.{Served}
use Rattle.demands.proofs.Laws.Mixed.{display_same}
use Rattle.demands.proofs.Laws.Replied.{Replied, untouched, walked, replied}
use Rattle.demands.specs.AnsweredWhen.{Mixes}
use Rattle.demands.specs.DisplayKept.{OnlyTests, DisplayKept}
use Rattle.demands.specs.Terms.{trail_of, Faultless}

pub display_stays : DisplayKept
unfolding served
display_stays b m h = go (replied b m)
  where
    at_fault : (reply b m).answer.outcome ≡ (trail_of m).ending.outcome → (Faultless b m → ⊥) ⊎ (Mixes m ⊎ OnlyTests m)
        → ((trail_of m).ending.outcome ≡ done → ⊥) ⊎ (Mixes m ⊎ OnlyTests m)
    at_fault e (inl n) = inl (λ d. n (e ∙ d))
    at_fault e (inr x) = inr x

    go : Replied b m → (reply b m).answer.board.display ≡ b.display
    go (untouched o e f z) = ap (λ (x : Board). x.display) f
    go (walked v g e) =
        ap (λ (r : Call Served). r.answer.board.display) e
        ∙ display_same b.display (trail_of m).ending (trail_of m).requests (at_fault (ap (λ (r : Call Served). r.answer.outcome) e) h)
