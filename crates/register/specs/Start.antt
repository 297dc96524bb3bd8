-- What starting a group answers.
use Rattle.std.specs.Prelude.{◌≡◌, ℕ, zero, suc, List, [], ◌∷◌, ◌++◌, map, Ok, Err, vec_items, Result, slice_index_or}
use Rattle.version.specs.Shape.{Size}
use Rattle.signature.specs.Meaning.{SchemeMeaning}
use Rattle.store.specs.Meaning.{StoreMeaning}
use Rattle.rules.specs.Group.{SiteState, Group as Meaning, Started, new_site}
use Rattle.site.specs.State.{state, setup}
use Rattle.host.specs.State.{host_state}
use Rattle.register.specs.declared.group.Group.{Group}
use Rattle.register.specs.declared.group.Unstarted.{Unstarted}
use Rattle.register.specs.declared.group.Reason.{Reason}
use Rattle.register.specs.declared.group.Reason.TheVariants.{OutOfRange, NoMemory}

-- the first k sites of a group of n, which have seen and written nothing yet
abbrev pub new_sites : ℕ → ℕ → List SiteState
new_sites n zero = []
new_sites n (suc k) = new_sites n k ++ (new_site n (suc k) ∷ [])

-- the site with this number; there is none with another
abbrev pub site_in : ℕ → List SiteState → ℕ → SiteState
site_in n sites zero = new_site n zero
site_in n sites (suc k) = slice_index_or sites k (new_site n (suc k))

-- why a group of n sites was not started
abbrev pub Because : ℕ → Reason → Type 0
Because n OutOfRange = Size n → ⊥
Because n NoMemory = Size n

module _ {S D T : Type 0} (len : ℕ) (scheme-means : S → SchemeMeaning) (digest-means : List ℕ → List ℕ) (store-means : T → StoreMeaning) where
  -- the group that a value of the code stands for, of n sites
  abbrev pub group_of : ℕ → Group S D T → Meaning
  group_of n g =
      record {
        setup = setup n len digest-means;
        start =
            record {
              scheme = scheme-means g.scheme;
              store = store-means g.host.store;
              host = host_state g.host;
              sites = site_in n (map state (vec_items g.sites));
            };
      }

  -- a group that is started over what was handed in; or all of that comes back
  abbrev pub Starts : ℕ → S → D → T → Result (Group S D T) (Unstarted S D T) → Type 0
  Starts n s d t (Ok g) =
      Started (group_of n g) × (g.scheme ≡ s) × (g.digest ≡ d) × (g.host.store ≡ t) × (map state (vec_items g.sites) ≡ new_sites n n)
      × (g.host.size ≡ n) × (g.host.signature ≡ len)
  Starts n s d t (Err u) = (u.scheme ≡ s) × (u.digest ≡ d) × (u.store ≡ t) × Because n u.reason
