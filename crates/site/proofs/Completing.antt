-- A finish whose reply was checked: it is completed, or the site stops.
use Rattle.std.proofs.Common.{◌≡◌, ℕ, List, [], length, Ok, Err, Option, unwrap_or, sym, refl, ap, ◌∙◌, subst, arith}
use Rattle.std.proofs.lemmas.List.{length-append}
use Rattle.message.specs.declared.reply.Reply.{Reply}
use Rattle.message.specs.Reply.{Response, response}
use Rattle.message.specs.Strings.{proof_string}
use Rattle.rules.specs.declared.phase.Phase.TheVariants.{Idle, Stopped}
use Rattle.rules.specs.declared.stop.Stop.{Stop}
use Rattle.rules.specs.Finish.{Operation, Completion, Finished, StoppedBy, read_reply, commit_size, in_phase}
use Rattle.rules.specs.Group.{Setup, SiteState, Member, slot}
use Rattle.rules.specs.Running.{Running as Walk, from_reply, rise_all, result}
use Rattle.rules.proofs.Slots.{length-with_slot, slot-set-same}
use Rattle.signature.specs.Calls.{Made}
use Rattle.signature.specs.Meaning.{SchemeMeaning}
use Rattle.version.proofs.LayoutLaws.{version-length}
use Rattle.version.specs.Order.{Slot}
use Rattle.version.specs.Version.{slots}
use Rattle.site.specs.declared.running.Running.{Running}
use Rattle.site.specs.Checking.{Verifies}
use Rattle.site.specs.Finishing.{Admitted, Commits, Told, place_of}
use Rattle.site.specs.State.{setup}
use Rattle.site.proofs.Reading.{placed}
use Rattle.site.proofs.Verifying.{all_length}

module _ (g : ℕ) (H : List ℕ → List ℕ) (M : SchemeMeaning) (s : SiteState) (t : Operation) (bs : List ℕ) (room r : ℕ) (m : Reply) (ad : Admitted g M s t bs room r m) where
  abbrev pub n : ℕ
  n = length s.version

  abbrev pub a : Response
  a = response g n m

  abbrev pub p : Setup
  p = setup n g H

  reads : read_reply p ad.code bs ≡ Ok a
  reads = ad.reads.0 H ∙ ap (λ (k : ℕ). Ok (response g k m)) ad.reads.1

  -- a check that fails
  pub stopped_by : (was : List ℕ) → room ≡ length was → (stop : Stop) → Verifies p M s.number s.version r a (Err stop) → StoppedBy p M s (in_phase s Stopped) t bs was stop
  stopped_by was e stop v = record {
    code = ad.code;
    register = r;
    answer = a;
    awaits = ad.awaits;
    two = ad.two;
    reads = reads;
    room = omega (arith, ad.fits, e);
    fails = v s.last s.phase;
    after = refl;
  }

  -- all checks pass
  module _ (w : Running) (v : Verifies p M s.number s.version r a (Ok w)) (member : Member n s.number) where
    abbrev i : ℕ
    i = s.number

    version_is : slots w.version ≡ (result H i a).version
    version_is = ap (λ (z : Walk). z.version) v.1

    before-length : length (rise_all H (from_reply a) a.entries).version ≡ n
    before-length = all_length H M i a (from_reply a) a.entries ∙ ad.reads.1

    pub version_length_is : length (slots w.version) ≡ n
    version_length_is = ap length version_is ∙ length-with_slot (rise_all H (from_reply a) a.entries).version i _ ∙ before-length

    -- the site's own digest is that of its view history
    own_digest : (slot (slots w.version) i).digest ≡ (result H i a).digest
    own_digest =
        ap (λ (z : List Slot). (slot z i).digest) version_is
        ∙ ap (λ (z : Slot). z.digest) (slot-set-same (rise_all H (from_reply a) a.entries).version i _ member.0 (omega (arith, member.1, before-length)))

    pub told : Told (slot (slots w.version) i).digest
    told = subst Told (sym own_digest) tt

    module _ (M' : SchemeMeaning) (was is : List ℕ) (end : ℕ) (e : room ≡ length was) (c : Commits g M M' i (slots w.version) was is end) where
      size : end ≡ commit_size p
      size =
          c.written.ends
          ∙ simp length-append (omega (arith, version-length w.version, version_length_is, c.commits.fits.sized, c.proves.fits.sized))

      done : Completion
      done = record {
        code = ad.code;
        register = r;
        reply = a;
        commit = record { site = i; version = slots w.version; commit_signature = c.first; proof_signature = c.second };
        place = place_of g (length bs) m.found;
      }

      pub completed_by :
          (d : Completion) × Finished p M M' s (record { number = i; version = slots w.version; last = s.last; phase = Idle }) t bs was is d
          × (place_of g (length bs) m.found ≡ d.place) × (end ≡ commit_size p)
      unfolding done
      completed_by = (
        done,
        record {
          awaits = ad.awaits;
          two = ad.two;
          reads = reads;
          room = omega (arith, ad.fits, e);
          passes = v.0 s.last s.phase;
          site = refl;
          version = version_is;
          between = c.between;
          commits = c.commits;
          proves = subst (λ (z : Option (List ℕ)). Made g c.between M' i (proof_string (unwrap_or z [])) c.second) own_digest c.proves;
          place = placed g bs m.found ad.reads.3;
          after = λ j. record { number = i; version = version_is j; last = s.last; phase = Idle };
          out = c.written.after ∙ rw size;
        },
        refl,
        size,
      )
