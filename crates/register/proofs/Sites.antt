-- The sites of a group that is started.
use Rattle.std.proofs.Common.{◌≡◌, ℕ, zero, suc, ◌+◌, ◌<◌, ◌⊎◌, List, [], ◌∷◌, ◌++◌, map, length, get_or, sym, refl, ap, ◌∙◌, inl, inr, add-one, arith}
use Rattle.std.proofs.lemmas.List.{map-append, length-append, get_or_append_left, get_or_past, get_or_push}
use Rattle.std.proofs.lemmas.Bool.{cases_order}
use Rattle.rules.specs.Group.{SiteState, new_site}
use Rattle.site.specs.declared.state.Site.{Site}
use Rattle.register.specs.Start.{new_sites, site_in}
use Rattle.site.specs.State.{state}

-- one site more
pub sites_more :
    (n k : ℕ) (xs : List Site) (s : Site) → map state xs ≡ new_sites n k → state s ≡ new_site n (k + 1)
    → map state (xs ++ (s ∷ [])) ≡ new_sites n (k + 1)
sites_more n k xs s e f =
    let g : state s ≡ new_site n (suc k) = f ∙ ap (new_site n) (add-one k) in
    let h : map state (xs ++ (s ∷ [])) ≡ new_sites n (suc k) = map-append state xs (s ∷ []) ∙ (λ i. e i ++ (g i ∷ [])) in
    h ∙ ap (new_sites n) (sym (add-one k))

length_sites : (n k : ℕ) → length (new_sites n k) ≡ k
length_sites n zero = refl
length_sites n (suc k) = length-append (new_sites n k) (new_site n (suc k) ∷ []) ∙ (let ih = length_sites n k in omega arith)

-- each has its number
site_at : (n k j : ℕ) → get_or (new_sites n k) j (new_site n (suc j)) ≡ new_site n (suc j)
site_at n zero j = refl
site_at n (suc k) j = go (cases_order j k) (site_at n k j)
  where
    l : length (new_sites n k) ≡ k
    l = length_sites n k

    go :
        (j ≡ k) ⊎ ((j < k) ⊎ (k < j)) → get_or (new_sites n k) j (new_site n (suc j)) ≡ new_site n (suc j)
        → get_or (new_sites n (suc k)) j (new_site n (suc j)) ≡ new_site n (suc j)
    go (inl e) ih = get_or_push (new_sites n k) (new_site n (suc k)) (new_site n (suc j)) j (l ∙ sym e) ∙ ap (λ (z : ℕ). new_site n (suc z)) (sym e)
    go (inr (inl less)) ih = get_or_append_left (new_sites n k) (new_site n (suc k) ∷ []) (new_site n (suc j)) j (omega (arith, l)) ∙ ih
    go (inr (inr more)) ih = get_or_past (new_sites n (suc k)) j (new_site n (suc j)) (omega (arith, length_sites n (suc k)))

pub all_new : (n : ℕ) (sites : List SiteState) → sites ≡ new_sites n n → (i : ℕ) → site_in n sites i ≡ new_site n i
all_new n sites e zero = refl
all_new n sites e (suc k) = ap (λ (z : List SiteState). get_or z k (new_site n (suc k))) e ∙ site_at n n k
