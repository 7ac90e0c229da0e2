-- `vc_serve` meets its contract: the law of a thin function, at `respond`.
use mathlib.Core.Path.{◌≡◌, refl}
use mir.Syntax.{w32, w64}
use base.Logic.{emp}
use contract.Monad.{fact_i}
use denote.Struct.Laws as LL
use Rattle.message.specs.Builder.{leaves}
use Rattle.board.specs.contracts.record.Board as T
use Rattle.board.proofs.record.Board.TheLaws as T'
use Rattle.responder.specs.contracts.respond.Served as S
use Rattle.responder.proofs.respond.Served.TheLaws as S'
use Rattle.responder.proofs.respond.respond.Met as callee-thm
use Rattle.responder.proofs.respond.respond.Symbol as callee-def
use Rattle.responder.specs.Reply.{reply}
use Rattle.thin.proofs.Thin.{Datum, Member, of_struct, of_width, thin_keeps}
use Rattle.vcmailbox.proofs.Fits.{serve_place_fits}
use Rattle.vcmailbox.specs.contracts.emulator.vc_serve as f
use Rattle.vcmailbox.proofs.emulator.vc_serve.Code as code
use Rattle.vcmailbox.specs.contracts.emulator.vc_serve.Key.{name}
use Rattle.vcmailbox.proofs.emulator.vc_serve.Statement.{statement}

abbrev B : Datum
B = of_struct T.the_type T'.the_laws T'.the_plain

abbrev outcome : Member S.the_type S'.the_laws (of_width w32)
outcome = record { of = λ r. r.outcome; number = 0; offset = 0; lies = refl; value = λ r. refl; is = λ r v is. (LL.owed S.the_type S'.the_laws r _ is).0 }

abbrev place : Member S.the_type S'.the_laws (of_width w64)
place = record { of = λ r. r.place; number = 1; offset = 8; lies = refl; value = λ r. refl; is = λ r v is. (LL.owed S.the_type S'.the_laws r _ is).1.0 }

abbrev board : Member S.the_type S'.the_laws B
board = record { of = λ r. r.board; number = 2; offset = 16; lies = refl; value = λ r. refl; is = λ r v is. (LL.owed S.the_type S'.the_laws r _ is).1.1.0 }

pub vc_serve_spec : {M : Type 1} → statement M
vc_serve_spec 𝓤 𝓛 𝓜 𝓡 wired =
    thin_keeps B S.the_type S'.the_laws board place outcome (λ h ys r zs. leaves zs r ≡ reply h ys) serve_place_fits callee-def.name
    𝓛 𝓜 𝓡 𝓡.env name (code.unfolded 𝓤 𝓛.H 𝓜 𝓡 wired) (𝓡.env callee-def.name) refl
    (callee-thm.met 𝓤 𝓛 𝓜 𝓡 (code.calls-responder::respond::respond 𝓡.env wired))
    (f.clauses 𝓛 𝓜.mem 𝓡.returns) (λ κs a _ r zs e. fact_i 𝓤 _ (emp 𝓤) e)
