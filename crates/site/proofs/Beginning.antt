-- From the checks and the writing of a submit to the rule of a begin.
use Rattle.std.proofs.Common.{◌≡◌, ℕ, ◌+◌, ◌*◌, List, length, Ok, Option, refl, ◌∙◌, arith}
use Rattle.std.proofs.lemmas.List.{length-append}
use Rattle.message.specs.Submit.{Submission}
use Rattle.signature.specs.Meaning.{SchemeMeaning}
use Rattle.rules.specs.declared.phase.Phase.TheVariants.{Waiting}
use Rattle.rules.specs.Begin.{Request, code_of, register_of, value_of, value_size, submit_size, Begun, Short}
use Rattle.rules.specs.Finish.{Operation}
use Rattle.rules.specs.Group.{SiteState}
use Rattle.site.specs.State.{setup}
use Rattle.site.specs.Steps.{Nexts}
use Rattle.site.specs.Submitting.{Asks, Submits}
use Rattle.site.proofs.Writing.{value-length}

abbrev operation : ℕ → ℕ → Operation
operation i t = record { site = i; timestamp = t }

module _ (n g : ℕ) (digest : List ℕ → List ℕ) (m m' : SchemeMeaning) (s : SiteState) (q : Request) (t : ℕ) (d : Option (List ℕ)) (was is : List ℕ) (end : ℕ) where
  -- the site as the code leaves it
  abbrev pub waiting : SiteState
  waiting = record { number = s.number; version = s.version; last = d; phase = Waiting (code_of q) (register_of s.number q) }

  -- a begin that was not refused
  pub begun : (o : Operation) → o ≡ operation s.number t → Short q → Asks (setup n g digest) s q d → Nexts m s (10 + 2 * g + value_size q) (length was) (Ok t) → Submits g m m' s.number q t d was is end
      → (a : Submission) × Begun (setup n g digest) m m' s waiting q was is a × (o ≡ operation a.site a.timestamp) × (end ≡ submit_size (setup n g digest) q)
  begun o named short k x w =
      let a : Submission =
      record { site = s.number; code = code_of q; register = register_of s.number q; timestamp = t; submit_signature = w.first; value = value_of q; data_signature = w.second } in
      let e : end ≡ submit_size (setup n g digest) q =
      w.written.ends ∙ simp length-append (omega (arith, value-length q, w.submits.fits.sized, w.datas.fits.sized)) in (
        a,
        record {
          ranged = k.ranged;
          idle = k.idle;
          short = short;
          below = x.0;
          four = x.2;
          room = omega (arith, x.3);
          site = refl;
          code = refl;
          register = refl;
          timestamp = x.1;
          value = refl;
          between = w.between;
          submits = w.submits;
          datas = w.datas;
          after = rw k.last;
          out = w.written.after ∙ rw e;
        },
        named,
        e,
      )
