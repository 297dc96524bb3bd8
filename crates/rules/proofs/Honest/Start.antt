-- All is well at the start.
use Rattle.std.proofs.Common.{ℕ, ◌^◌, ◌<◌, List, [], sym, refl, subst, inl, arith}
use lib.ListN.{length-replicate}
use Rattle.message.specs.Slots.{StoredValue, StoredVersion}
use Rattle.message.specs.Submit.{Submission}
use Rattle.signature.specs.Meaning.{SchemeMeaning}
use Rattle.store.specs.Meaning.{StoreMeaning, Empty}
use Rattle.rules.specs.Group.{Setup, SetUp, Group, Started, HostState, zeros, new_site, new_host}
use Rattle.rules.specs.Taking.{version_at}
use Rattle.rules.proofs.Fitting.{fits_zeros}
use Rattle.rules.proofs.Lists
use Rattle.rules.proofs.Lists.{ends_none, ends_refl}
use Rattle.rules.proofs.Slots.{length-zeros}
use Rattle.rules.proofs.Honest.Good.{Is, Holds, GoodSite, GoodHost, Good}
use Rattle.rules.proofs.Honest.Messages.{absent_good}
use Rattle.rules.proofs.Honest.Stored.{no_value, no_version, value_first, version_first, version_good}
use Rattle.rules.proofs.Honest.Taken.{of, times}

module _ (p : Setup) (all : List Submission) (sch : SchemeMeaning) (set_up : SetUp p) where
  none_times : (k : ℕ) → times k [] < 256 ^ 4
  unfolding Lists.times
  none_times k = omega arith

  first_version : (k : ℕ) → Is p all sch k (no_version p) []
  unfolding Lists.cut
  first_version k = record {
    form = (
      (
        version_good p.digest set_up.wide of p.size (zeros p.size) [] (length-zeros p.size) (fits_zeros p.digest of p.size) none_times,
        (length-replicate p.signature 0, length-replicate p.signature 0),
      ),
      refl,
    );
    own = refl;
    fits = fits_zeros p.digest of p.size;
    signed = inl refl;
  }

  first_value : (k : ℕ) → Holds p all sch k (no_value p) []
  unfolding Lists.times
  first_value k = record {
    form = ((omega arith, (absent_good, length-replicate p.signature 0)), refl);
    timestamp = refl;
    value = refl;
    signed = inl refl;
  }

  first_site : (k : ℕ) → GoodSite p all sch [] k (new_site p.size k)
  unfolding Lists.cut
  first_site k = record {
    number = refl;
    upto = [];
    inside = ends_none all;
    own = refl;
    long = length-zeros p.size;
    fits = fits_zeros p.digest of p.size;
    standing = record { last = refl; none_above = λ a m. absurd m };
  }

  first_host : (m : StoreMeaning) → Empty m → GoodHost p all sch [] new_host m
  unfolding Lists.times
  first_host m none = record {
    old = [];
    new = [];
    split = refl;
    list = refl;
    numbered = tt;
    member = (omega arith, set_up.size.0);
    values = λ k. subst (λ (v : StoredValue). Holds p all sch k v []) (sym (value_first p m none k)) (first_value k);
    versions = λ k. ([], ends_refl [], version k);
    recent = λ k. omega arith;
    lead = version 1;
  }
    where
      version : (k : ℕ) → Is p all sch k (version_at p m k) []
      version k = subst (λ (v : StoredVersion). Is p all sch k v []) (sym (version_first p m set_up.size.0 none k)) (first_version k)

pub start_good :
    (G : Group) (all : List Submission) (sch : SchemeMeaning) → Started G → Empty G.start.store → Good G.setup all sch [] [] [] G.start
start_good G all sch started none = record {
  sites = λ k. subst (GoodSite G.setup all sch [] k) (sym (started.sites k)) (first_site G.setup all sch started.set_up k);
  host =
      subst (λ (h : HostState). GoodHost G.setup all sch [] h G.start.store) (sym started.host)
      (first_host G.setup all sch started.set_up G.start.store none);
  submits = λ a m. absurd m;
  completions = λ d m. absurd m;
  exchanges = λ e m. absurd m;
}
