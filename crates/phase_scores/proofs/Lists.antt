-- The v of paths of kernels 1 and 2, as the windows' solutions give them from symbols u and window bits x. Assumes nothing.
use mathlib.Core.Path.{◌≡◌, refl}
use mathlib.Core.Bool.{Bool}
use mathlib.Core.List.{[], ◌∷◌}
use Rattle.base.specs.Bit.{◌⊕◌}
use Rattle.base.proofs.Bool.{⊕-false}
use Rattle.polar.specs.Relation.{sum_of, symbols}
use Rattle.polar.specs.Window.{path_of}
use Rattle.windows.specs.Windows.{solutions, solution}

pub path1-1 : (u0 : Bool) → path_of (solution 1 1) (u0 ∷ []) []
    ≡ u0 ∷ []
unfolding symbols sum_of solutions
path1-1 u0 = simp (⊕-false) refl

pub path1-2 : (u0 u1 : Bool) → path_of (solution 1 2) (u0 ∷ u1 ∷ []) []
    ≡ u0 ∷ u1 ∷ []
unfolding symbols sum_of solutions
path1-2 u0 u1 = simp (⊕-false) refl

pub path1-3 : (u0 u1 u2 : Bool) → path_of (solution 1 3) (u0 ∷ u1 ∷ u2 ∷ []) []
    ≡ u0 ∷ u1 ∷ u2 ∷ []
unfolding symbols sum_of solutions
path1-3 u0 u1 u2 = simp (⊕-false) refl

pub path1-4 : (u0 u1 u2 u3 x3 : Bool) → path_of (solution 1 4) (u0 ∷ u1 ∷ u2 ∷ u3 ∷ []) (x3 ∷ [])
    ≡ u0 ∷ u1 ∷ u2 ∷ x3 ∷ u3 ∷ []
unfolding symbols sum_of solutions
path1-4 u0 u1 u2 u3 x3 = simp (⊕-false) refl

pub path1-5 : (u0 u1 u2 u3 u4 x3 x5 x6 x7 : Bool) → path_of (solution 1 5) (u0 ∷ u1 ∷ u2 ∷ u3 ∷ u4 ∷ []) (x3 ∷ x5 ∷ x6 ∷ x7 ∷ [])
    ≡ u0 ∷ u1 ∷ u2 ∷ x3 ∷ u3 ∷ x5 ∷ x6 ∷ x7 ∷ u4 ∷ []
unfolding symbols sum_of solutions
path1-5 u0 u1 u2 u3 u4 x3 x5 x6 x7 = simp (⊕-false) refl

pub path1-6 : (u0 u1 u2 u3 u4 u5 x3 x5 x6 x7 : Bool) → path_of (solution 1 6) (u0 ∷ u1 ∷ u2 ∷ u3 ∷ u4 ∷ u5 ∷ []) (x3 ∷ x5 ∷ x6 ∷ x7 ∷ [])
    ≡ u0 ∷ u1 ∷ u2 ∷ x3 ∷ u3 ∷ x5 ∷ x6 ∷ x7 ∷ u4 ∷ (u5 ⊕ x6) ∷ []
unfolding symbols sum_of solutions
path1-6 u0 u1 u2 u3 u4 u5 x3 x5 x6 x7 = simp (⊕-false) refl

pub path1-7 : (u0 u1 u2 u3 u4 u5 u6 x3 x5 x6 x7 : Bool) → path_of (solution 1 7) (u0 ∷ u1 ∷ u2 ∷ u3 ∷ u4 ∷ u5 ∷ u6 ∷ []) (x3 ∷ x5 ∷ x6 ∷ x7 ∷ [])
    ≡ u0 ∷ u1 ∷ u2 ∷ x3 ∷ u3 ∷ x5 ∷ x6 ∷ x7 ∷ u4 ∷ (u5 ⊕ x6) ∷ (u6 ⊕ (x5 ⊕ x6)) ∷ []
unfolding symbols sum_of solutions
path1-7 u0 u1 u2 u3 u4 u5 u6 x3 x5 x6 x7 = simp (⊕-false) refl

pub path1-8 : (u0 u1 u2 u3 u4 u5 u6 u7 x5 x6 x7 : Bool) → path_of (solution 1 8) (u0 ∷ u1 ∷ u2 ∷ u3 ∷ u4 ∷ u5 ∷ u6 ∷ u7 ∷ []) (x5 ∷ x6 ∷ x7 ∷ [])
    ≡ u0 ∷ u1 ∷ u2 ∷ u7 ∷ u3 ∷ x5 ∷ x6 ∷ x7 ∷ u4 ∷ (u5 ⊕ x6) ∷ (u6 ⊕ (x5 ⊕ x6)) ∷ []
unfolding symbols sum_of solutions
path1-8 u0 u1 u2 u3 u4 u5 u6 u7 x5 x6 x7 = simp (⊕-false) refl

pub path1-9 : (u0 u1 u2 u3 u4 u5 u6 u7 u8 x5 x6 x7 x11 : Bool) → path_of (solution 1 9) (u0 ∷ u1 ∷ u2 ∷ u3 ∷ u4 ∷ u5 ∷ u6 ∷ u7 ∷ u8 ∷ []) (x5 ∷ x6 ∷ x7 ∷ x11 ∷ [])
    ≡ u0 ∷ u1 ∷ u2 ∷ u7 ∷ u3 ∷ x5 ∷ x6 ∷ x7 ∷ u4 ∷ (u5 ⊕ x6) ∷ (u6 ⊕ (x5 ⊕ x6)) ∷ x11 ∷ u8 ∷ []
unfolding symbols sum_of solutions
path1-9 u0 u1 u2 u3 u4 u5 u6 u7 u8 x5 x6 x7 x11 = simp (⊕-false) refl

pub path1-10 : (u0 u1 u2 u3 u4 u5 u6 u7 u8 u9 x5 x7 x11 : Bool) → path_of (solution 1 10) (u0 ∷ u1 ∷ u2 ∷ u3 ∷ u4 ∷ u5 ∷ u6 ∷ u7 ∷ u8 ∷ u9 ∷ []) (x5 ∷ x7 ∷ x11 ∷ [])
    ≡ u0 ∷ u1 ∷ u2 ∷ u7 ∷ u3 ∷ x5 ∷ u9 ∷ x7 ∷ u4 ∷ (u5 ⊕ u9) ∷ (u6 ⊕ (u9 ⊕ x5)) ∷ x11 ∷ u8 ∷ []
unfolding symbols sum_of solutions
path1-10 u0 u1 u2 u3 u4 u5 u6 u7 u8 u9 x5 x7 x11 = simp (⊕-false) refl

pub path1-11 : (u0 u1 u2 u3 u4 u5 u6 u7 u8 u9 u10 x7 x11 : Bool) → path_of (solution 1 11) (u0 ∷ u1 ∷ u2 ∷ u3 ∷ u4 ∷ u5 ∷ u6 ∷ u7 ∷ u8 ∷ u9 ∷ u10 ∷ []) (x7 ∷ x11 ∷ [])
    ≡ u0 ∷ u1 ∷ u2 ∷ u7 ∷ u3 ∷ (u6 ⊕ (u9 ⊕ u10)) ∷ u9 ∷ x7 ∷ u4 ∷ (u5 ⊕ u9) ∷ u10 ∷ x11 ∷ u8 ∷ []
unfolding symbols sum_of solutions
path1-11 u0 u1 u2 u3 u4 u5 u6 u7 u8 u9 u10 x7 x11 = simp (⊕-false) refl

pub path1-12 : (u0 u1 u2 u3 u4 u5 u6 u7 u8 u9 u10 u11 x11 : Bool) → path_of (solution 1 12) (u0 ∷ u1 ∷ u2 ∷ u3 ∷ u4 ∷ u5 ∷ u6 ∷ u7 ∷ u8 ∷ u9 ∷ u10 ∷ u11 ∷ []) (x11 ∷ [])
    ≡ u0 ∷ u1 ∷ u2 ∷ u7 ∷ u3 ∷ (u6 ⊕ (u9 ⊕ u10)) ∷ u9 ∷ u11 ∷ u4 ∷ (u5 ⊕ u9) ∷ u10 ∷ x11 ∷ u8 ∷ []
unfolding symbols sum_of solutions
path1-12 u0 u1 u2 u3 u4 u5 u6 u7 u8 u9 u10 u11 x11 = simp (⊕-false) refl

pub path1-13 : (u0 u1 u2 u3 u4 u5 u6 u7 u8 u9 u10 u11 u12 : Bool) → path_of (solution 1 13) (u0 ∷ u1 ∷ u2 ∷ u3 ∷ u4 ∷ u5 ∷ u6 ∷ u7 ∷ u8 ∷ u9 ∷ u10 ∷ u11 ∷ u12 ∷ []) []
    ≡ u0 ∷ u1 ∷ u2 ∷ u7 ∷ u3 ∷ (u6 ⊕ (u9 ⊕ u10)) ∷ u9 ∷ u11 ∷ u4 ∷ (u5 ⊕ u9) ∷ u10 ∷ u12 ∷ u8 ∷ []
unfolding symbols sum_of solutions
path1-13 u0 u1 u2 u3 u4 u5 u6 u7 u8 u9 u10 u11 u12 = simp (⊕-false) refl

pub path1-14 : (u0 u1 u2 u3 u4 u5 u6 u7 u8 u9 u10 u11 u12 u13 : Bool) → path_of (solution 1 14) (u0 ∷ u1 ∷ u2 ∷ u3 ∷ u4 ∷ u5 ∷ u6 ∷ u7 ∷ u8 ∷ u9 ∷ u10 ∷ u11 ∷ u12 ∷ u13 ∷ []) []
    ≡ u0 ∷ u1 ∷ u2 ∷ u7 ∷ u3 ∷ (u6 ⊕ (u9 ⊕ u10)) ∷ u9 ∷ u11 ∷ u4 ∷ (u5 ⊕ u9) ∷ u10 ∷ u12 ∷ u8 ∷ u13 ∷ []
unfolding symbols sum_of solutions
path1-14 u0 u1 u2 u3 u4 u5 u6 u7 u8 u9 u10 u11 u12 u13 = simp (⊕-false) refl

pub path1-15 : (u0 u1 u2 u3 u4 u5 u6 u7 u8 u9 u10 u11 u12 u13 u14 : Bool) → path_of (solution 1 15) (u0 ∷ u1 ∷ u2 ∷ u3 ∷ u4 ∷ u5 ∷ u6 ∷ u7 ∷ u8 ∷ u9 ∷ u10 ∷ u11 ∷ u12 ∷ u13 ∷ u14 ∷ []) []
    ≡ u0 ∷ u1 ∷ u2 ∷ u7 ∷ u3 ∷ (u6 ⊕ (u9 ⊕ u10)) ∷ u9 ∷ u11 ∷ u4 ∷ (u5 ⊕ u9) ∷ u10 ∷ u12 ∷ u8 ∷ u13 ∷ u14 ∷ []
unfolding symbols sum_of solutions
path1-15 u0 u1 u2 u3 u4 u5 u6 u7 u8 u9 u10 u11 u12 u13 u14 = simp (⊕-false) refl

pub path1-16 : (u0 u1 u2 u3 u4 u5 u6 u7 u8 u9 u10 u11 u12 u13 u14 u15 : Bool) → path_of (solution 1 16) (u0 ∷ u1 ∷ u2 ∷ u3 ∷ u4 ∷ u5 ∷ u6 ∷ u7 ∷ u8 ∷ u9 ∷ u10 ∷ u11 ∷ u12 ∷ u13 ∷ u14 ∷ u15 ∷ []) []
    ≡ u0 ∷ u1 ∷ u2 ∷ u7 ∷ u3 ∷ (u6 ⊕ (u9 ⊕ u10)) ∷ u9 ∷ u11 ∷ u4 ∷ (u5 ⊕ u9) ∷ u10 ∷ u12 ∷ u8 ∷ u13 ∷ u14 ∷ u15 ∷ []
unfolding symbols sum_of solutions
path1-16 u0 u1 u2 u3 u4 u5 u6 u7 u8 u9 u10 u11 u12 u13 u14 u15 = simp (⊕-false) refl

pub path2-1 : (u0 : Bool) → path_of (solution 2 1) (u0 ∷ []) []
    ≡ u0 ∷ []
unfolding symbols sum_of solutions
path2-1 u0 = simp (⊕-false) refl

pub path2-2 : (u0 u1 : Bool) → path_of (solution 2 2) (u0 ∷ u1 ∷ []) []
    ≡ u0 ∷ u1 ∷ []
unfolding symbols sum_of solutions
path2-2 u0 u1 = simp (⊕-false) refl

pub path2-3 : (u0 u1 u2 : Bool) → path_of (solution 2 3) (u0 ∷ u1 ∷ u2 ∷ []) []
    ≡ u0 ∷ u1 ∷ u2 ∷ []
unfolding symbols sum_of solutions
path2-3 u0 u1 u2 = simp (⊕-false) refl

pub path2-4 : (u0 u1 u2 u3 : Bool) → path_of (solution 2 4) (u0 ∷ u1 ∷ u2 ∷ u3 ∷ []) []
    ≡ u0 ∷ u1 ∷ u2 ∷ u3 ∷ []
unfolding symbols sum_of solutions
path2-4 u0 u1 u2 u3 = simp (⊕-false) refl

pub path2-5 : (u0 u1 u2 u3 u4 : Bool) → path_of (solution 2 5) (u0 ∷ u1 ∷ u2 ∷ u3 ∷ u4 ∷ []) []
    ≡ u0 ∷ u1 ∷ u2 ∷ u3 ∷ u4 ∷ []
unfolding symbols sum_of solutions
path2-5 u0 u1 u2 u3 u4 = simp (⊕-false) refl

pub path2-6 : (u0 u1 u2 u3 u4 u5 x5 x6 x7 : Bool) → path_of (solution 2 6) (u0 ∷ u1 ∷ u2 ∷ u3 ∷ u4 ∷ u5 ∷ []) (x5 ∷ x6 ∷ x7 ∷ [])
    ≡ u0 ∷ u1 ∷ u2 ∷ u3 ∷ u4 ∷ x5 ∷ x6 ∷ x7 ∷ u5 ∷ []
unfolding symbols sum_of solutions
path2-6 u0 u1 u2 u3 u4 u5 x5 x6 x7 = simp (⊕-false) refl

pub path2-7 : (u0 u1 u2 u3 u4 u5 u6 x5 x6 x7 : Bool) → path_of (solution 2 7) (u0 ∷ u1 ∷ u2 ∷ u3 ∷ u4 ∷ u5 ∷ u6 ∷ []) (x5 ∷ x6 ∷ x7 ∷ [])
    ≡ u0 ∷ u1 ∷ u2 ∷ u3 ∷ u4 ∷ x5 ∷ x6 ∷ x7 ∷ u5 ∷ (u6 ⊕ x6) ∷ []
unfolding symbols sum_of solutions
path2-7 u0 u1 u2 u3 u4 u5 u6 x5 x6 x7 = simp (⊕-false) refl

pub path2-8 : (u0 u1 u2 u3 u4 u5 u6 u7 x5 x6 x7 : Bool) → path_of (solution 2 8) (u0 ∷ u1 ∷ u2 ∷ u3 ∷ u4 ∷ u5 ∷ u6 ∷ u7 ∷ []) (x5 ∷ x6 ∷ x7 ∷ [])
    ≡ u0 ∷ u1 ∷ u2 ∷ u3 ∷ u4 ∷ x5 ∷ x6 ∷ x7 ∷ u5 ∷ (u6 ⊕ x6) ∷ (u7 ⊕ (x5 ⊕ x6)) ∷ []
unfolding symbols sum_of solutions
path2-8 u0 u1 u2 u3 u4 u5 u6 u7 x5 x6 x7 = simp (⊕-false) refl

pub path2-9 : (u0 u1 u2 u3 u4 u5 u6 u7 u8 x5 x7 : Bool) → path_of (solution 2 9) (u0 ∷ u1 ∷ u2 ∷ u3 ∷ u4 ∷ u5 ∷ u6 ∷ u7 ∷ u8 ∷ []) (x5 ∷ x7 ∷ [])
    ≡ u0 ∷ u1 ∷ u2 ∷ u3 ∷ u4 ∷ x5 ∷ u8 ∷ x7 ∷ u5 ∷ (u6 ⊕ u8) ∷ (u7 ⊕ (u8 ⊕ x5)) ∷ []
unfolding symbols sum_of solutions
path2-9 u0 u1 u2 u3 u4 u5 u6 u7 u8 x5 x7 = simp (⊕-false) refl

pub path2-10 : (u0 u1 u2 u3 u4 u5 u6 u7 u8 u9 x7 : Bool) → path_of (solution 2 10) (u0 ∷ u1 ∷ u2 ∷ u3 ∷ u4 ∷ u5 ∷ u6 ∷ u7 ∷ u8 ∷ u9 ∷ []) (x7 ∷ [])
    ≡ u0 ∷ u1 ∷ u2 ∷ u3 ∷ u4 ∷ (u7 ⊕ (u8 ⊕ u9)) ∷ u8 ∷ x7 ∷ u5 ∷ (u6 ⊕ u8) ∷ u9 ∷ []
unfolding symbols sum_of solutions
path2-10 u0 u1 u2 u3 u4 u5 u6 u7 u8 u9 x7 = simp (⊕-false) refl

pub path2-11 : (u0 u1 u2 u3 u4 u5 u6 u7 u8 u9 u10 : Bool) → path_of (solution 2 11) (u0 ∷ u1 ∷ u2 ∷ u3 ∷ u4 ∷ u5 ∷ u6 ∷ u7 ∷ u8 ∷ u9 ∷ u10 ∷ []) []
    ≡ u0 ∷ u1 ∷ u2 ∷ u3 ∷ u4 ∷ (u7 ⊕ (u8 ⊕ u9)) ∷ u8 ∷ u10 ∷ u5 ∷ (u6 ⊕ u8) ∷ u9 ∷ []
unfolding symbols sum_of solutions
path2-11 u0 u1 u2 u3 u4 u5 u6 u7 u8 u9 u10 = simp (⊕-false) refl

pub path2-12 : (u0 u1 u2 u3 u4 u5 u6 u7 u8 u9 u10 u11 : Bool) → path_of (solution 2 12) (u0 ∷ u1 ∷ u2 ∷ u3 ∷ u4 ∷ u5 ∷ u6 ∷ u7 ∷ u8 ∷ u9 ∷ u10 ∷ u11 ∷ []) []
    ≡ u0 ∷ u1 ∷ u2 ∷ u3 ∷ u4 ∷ (u7 ⊕ (u8 ⊕ u9)) ∷ u8 ∷ u10 ∷ u5 ∷ (u6 ⊕ u8) ∷ u9 ∷ u11 ∷ []
unfolding symbols sum_of solutions
path2-12 u0 u1 u2 u3 u4 u5 u6 u7 u8 u9 u10 u11 = simp (⊕-false) refl

pub path2-13 : (u0 u1 u2 u3 u4 u5 u6 u7 u8 u9 u10 u11 u12 : Bool) → path_of (solution 2 13) (u0 ∷ u1 ∷ u2 ∷ u3 ∷ u4 ∷ u5 ∷ u6 ∷ u7 ∷ u8 ∷ u9 ∷ u10 ∷ u11 ∷ u12 ∷ []) []
    ≡ u0 ∷ u1 ∷ u2 ∷ u3 ∷ u4 ∷ (u7 ⊕ (u8 ⊕ u9)) ∷ u8 ∷ u10 ∷ u5 ∷ (u6 ⊕ u8) ∷ u9 ∷ u11 ∷ u12 ∷ []
unfolding symbols sum_of solutions
path2-13 u0 u1 u2 u3 u4 u5 u6 u7 u8 u9 u10 u11 u12 = simp (⊕-false) refl

pub path2-14 : (u0 u1 u2 u3 u4 u5 u6 u7 u8 u9 u10 u11 u12 u13 : Bool) → path_of (solution 2 14) (u0 ∷ u1 ∷ u2 ∷ u3 ∷ u4 ∷ u5 ∷ u6 ∷ u7 ∷ u8 ∷ u9 ∷ u10 ∷ u11 ∷ u12 ∷ u13 ∷ []) []
    ≡ u0 ∷ u1 ∷ u2 ∷ u3 ∷ u4 ∷ (u7 ⊕ (u8 ⊕ u9)) ∷ u8 ∷ u10 ∷ u5 ∷ (u6 ⊕ u8) ∷ u9 ∷ u11 ∷ u12 ∷ u13 ∷ []
unfolding symbols sum_of solutions
path2-14 u0 u1 u2 u3 u4 u5 u6 u7 u8 u9 u10 u11 u12 u13 = simp (⊕-false) refl

pub path2-15 : (u0 u1 u2 u3 u4 u5 u6 u7 u8 u9 u10 u11 u12 u13 u14 : Bool) → path_of (solution 2 15) (u0 ∷ u1 ∷ u2 ∷ u3 ∷ u4 ∷ u5 ∷ u6 ∷ u7 ∷ u8 ∷ u9 ∷ u10 ∷ u11 ∷ u12 ∷ u13 ∷ u14 ∷ []) []
    ≡ u0 ∷ u1 ∷ u2 ∷ u3 ∷ u4 ∷ (u7 ⊕ (u8 ⊕ u9)) ∷ u8 ∷ u10 ∷ u5 ∷ (u6 ⊕ u8) ∷ u9 ∷ u11 ∷ u12 ∷ u13 ∷ u14 ∷ []
unfolding symbols sum_of solutions
path2-15 u0 u1 u2 u3 u4 u5 u6 u7 u8 u9 u10 u11 u12 u13 u14 = simp (⊕-false) refl

pub path2-16 : (u0 u1 u2 u3 u4 u5 u6 u7 u8 u9 u10 u11 u12 u13 u14 u15 : Bool) → path_of (solution 2 16) (u0 ∷ u1 ∷ u2 ∷ u3 ∷ u4 ∷ u5 ∷ u6 ∷ u7 ∷ u8 ∷ u9 ∷ u10 ∷ u11 ∷ u12 ∷ u13 ∷ u14 ∷ u15 ∷ []) []
    ≡ u0 ∷ u1 ∷ u2 ∷ u3 ∷ u4 ∷ (u7 ⊕ (u8 ⊕ u9)) ∷ u8 ∷ u10 ∷ u5 ∷ (u6 ⊕ u8) ∷ u9 ∷ u11 ∷ u12 ∷ u13 ∷ u14 ∷ u15 ∷ []
unfolding symbols sum_of solutions
path2-16 u0 u1 u2 u3 u4 u5 u6 u7 u8 u9 u10 u11 u12 u13 u14 u15 = simp (⊕-false) refl
