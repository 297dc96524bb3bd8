use Rattle.std.proofs.Common.{◌≡◌, ℕ, List, [], ◌∷◌}
use Rattle.std.specs.Prelude.{bit_xor, slice_index}
use Rattle.std.specs.Int.{rotate_left, w64}
use Rattle.sha3.specs.Keccak.{D, θ, ρ, π}
use Rattle.sha3.proofs.permutation.theta_rho_pi.Goals as goal

-- the lanes that the code makes, over plain variables, so that no step is computed again for each
turned : (A d : List ℕ) (r1 r2 r3 r4 r5 r6 r7 r8 r9 r10 r11 r12 r13 r14 r15 r16 r17 r18 r19 r20 r21 r22 r23 r24 : ℕ) → d ≡ D A 0 ∷ D A 1 ∷ D A 2 ∷ D A 3 ∷ D A 4 ∷ []
    → r1 ≡ rotate_left w64 (bit_xor (slice_index A 6) (slice_index d 1)) 44
    → r2 ≡ rotate_left w64 (bit_xor (slice_index A 12) (slice_index d 2)) 43
    → r3 ≡ rotate_left w64 (bit_xor (slice_index A 18) (slice_index d 3)) 21
    → r4 ≡ rotate_left w64 (bit_xor (slice_index A 24) (slice_index d 4)) 14
    → r5 ≡ rotate_left w64 (bit_xor (slice_index A 3) (slice_index d 3)) 28
    → r6 ≡ rotate_left w64 (bit_xor (slice_index A 9) (slice_index d 4)) 20
    → r7 ≡ rotate_left w64 (bit_xor (slice_index A 10) (slice_index d 0)) 3
    → r8 ≡ rotate_left w64 (bit_xor (slice_index A 16) (slice_index d 1)) 45
    → r9 ≡ rotate_left w64 (bit_xor (slice_index A 22) (slice_index d 2)) 61
    → r10 ≡ rotate_left w64 (bit_xor (slice_index A 1) (slice_index d 1)) 1
    → r11 ≡ rotate_left w64 (bit_xor (slice_index A 7) (slice_index d 2)) 6
    → r12 ≡ rotate_left w64 (bit_xor (slice_index A 13) (slice_index d 3)) 25
    → r13 ≡ rotate_left w64 (bit_xor (slice_index A 19) (slice_index d 4)) 8
    → r14 ≡ rotate_left w64 (bit_xor (slice_index A 20) (slice_index d 0)) 18
    → r15 ≡ rotate_left w64 (bit_xor (slice_index A 4) (slice_index d 4)) 27
    → r16 ≡ rotate_left w64 (bit_xor (slice_index A 5) (slice_index d 0)) 36
    → r17 ≡ rotate_left w64 (bit_xor (slice_index A 11) (slice_index d 1)) 10
    → r18 ≡ rotate_left w64 (bit_xor (slice_index A 17) (slice_index d 2)) 15
    → r19 ≡ rotate_left w64 (bit_xor (slice_index A 23) (slice_index d 3)) 56
    → r20 ≡ rotate_left w64 (bit_xor (slice_index A 2) (slice_index d 2)) 62
    → r21 ≡ rotate_left w64 (bit_xor (slice_index A 8) (slice_index d 3)) 55
    → r22 ≡ rotate_left w64 (bit_xor (slice_index A 14) (slice_index d 4)) 39
    → r23 ≡ rotate_left w64 (bit_xor (slice_index A 15) (slice_index d 0)) 41
    → r24 ≡ rotate_left w64 (bit_xor (slice_index A 21) (slice_index d 1)) 2
    → bit_xor (slice_index A 0) (slice_index d 0) ∷ r1 ∷ r2 ∷ r3 ∷ r4 ∷ r5 ∷ r6 ∷ r7 ∷ r8 ∷ r9 ∷ r10 ∷ r11 ∷ r12 ∷ r13 ∷ r14 ∷ r15 ∷ r16 ∷ r17 ∷ r18 ∷ r19 ∷ r20 ∷ r21 ∷ r22 ∷ r23 ∷ r24 ∷ [] ≡ π (ρ (θ A))
unfolding π ρ θ
turned A d r1 r2 r3 r4 r5 r6 r7 r8 r9 r10 r11 r12 r13 r14 r15 r16 r17 r18 r19 r20 r21 r22 r23 r24 e e1 e2 e3 e4 e5 e6 e7 e8 e9 e10 e11 e12 e13 e14 e15 e16 e17 e18 e19 e20 e21 e22 e23 e24 = rw (e1, e2, e3, e4, e5, e6, e7, e8, e9, e10, e11, e12, e13, e14, e15, e16, e17, e18, e19, e20, e21, e22, e23, e24, e)

pub returns : goal.returns
returns c = turned c.args.a c.effects-d.result _ _ _ _ _ _ _ _ _ _ _ _ _ _ _ _ _ _ _ _ _ _ _ _ c.effects-d.ensures c.rotate_left.ensures c.rotate_left-2.ensures c.rotate_left-3.ensures c.rotate_left-4.ensures c.rotate_left-5.ensures c.rotate_left-6.ensures c.rotate_left-7.ensures c.rotate_left-8.ensures c.rotate_left-9.ensures c.rotate_left-10.ensures c.rotate_left-11.ensures c.rotate_left-12.ensures c.rotate_left-13.ensures c.rotate_left-14.ensures c.rotate_left-15.ensures c.rotate_left-16.ensures c.rotate_left-17.ensures c.rotate_left-18.ensures c.rotate_left-19.ensures c.rotate_left-20.ensures c.rotate_left-21.ensures c.rotate_left-22.ensures c.rotate_left-23.ensures c.rotate_left-24.ensures
