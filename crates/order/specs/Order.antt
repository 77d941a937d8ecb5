-- The information order, a reliability order of the phases (the paper's house order), and the information mask that it gives,
-- the information set of p bytes (the paper's house mask). Assumes nothing.
use Rattle.std.specs.Prelude.{◌≡◌, Bool, true, false, ◌||◌, List, [], ◌∷◌, map, ◌⊎◌, ℕ, suc, ◌*◌, ◌/◌, ◌%◌, ◌<◌, eqb, length, get_or, take}
use Rattle.base.specs.Bit.{tabulate}
use Rattle.kernel.specs.Distances.{distance_table}

-- D[r] × D[s] of phase 16r + s, with the partial distances D of kernel 2.
unfoldable pub distance_product : ℕ → ℕ
distance_product x = get_or (distance_table 2) (x / 16) 0 * get_or (distance_table 2) (x % 16) 0

-- Phase x comes before phase y: its product is greater, or the products are equal and the phase is greater.
abbrev pub Before : ℕ → ℕ → Type 0
Before x y = (distance_product y < distance_product x) ⊎ ((distance_product y ≡ distance_product x) × (y < x))

-- What makes a list the information order: it lists the 256 phases by falling product, equal products by falling phase.
pub record IsOrder (l : List ℕ) : Type 0 where
  -- There are 256 entries,
  pub count : length l ≡ 256
  -- each is a phase,
  pub phases : (i : ℕ) → i < 256 → get_or l i 0 < 256
  -- every phase is an entry,
  pub all : (x : ℕ) → x < 256 → (i : ℕ) × (i < 256) × (get_or l i 0 ≡ x)
  -- and of two neighbours the first comes before the second.
  pub falling : (i : ℕ) → i < 255 → Before (get_or l i 0) (get_or l (suc i) 0)

-- The information order.
unfoldable pub order : List ℕ
order =
    255 ∷ 254 ∷ 253 ∷ 251 ∷ 250 ∷ 239 ∷ 223 ∷ 191 ∷ 175 ∷ 249 ∷ 248 ∷ 159 ∷ 143 ∷ 252 ∷ 247 ∷ 246
    ∷ 243 ∷ 238 ∷ 237 ∷ 235 ∷ 234 ∷ 222 ∷ 221 ∷ 219 ∷ 218 ∷ 207 ∷ 190 ∷ 189 ∷ 187 ∷ 186 ∷ 174 ∷ 173
    ∷ 171 ∷ 170 ∷ 127 ∷ 111 ∷ 63 ∷ 233 ∷ 232 ∷ 217 ∷ 216 ∷ 185 ∷ 184 ∷ 169 ∷ 168 ∷ 158 ∷ 157 ∷ 155
    ∷ 154 ∷ 142 ∷ 141 ∷ 139 ∷ 138 ∷ 153 ∷ 152 ∷ 137 ∷ 136 ∷ 245 ∷ 244 ∷ 242 ∷ 241 ∷ 236 ∷ 231 ∷ 230
    ∷ 227 ∷ 220 ∷ 215 ∷ 214 ∷ 211 ∷ 206 ∷ 205 ∷ 203 ∷ 202 ∷ 188 ∷ 183 ∷ 182 ∷ 179 ∷ 172 ∷ 167 ∷ 166
    ∷ 163 ∷ 126 ∷ 125 ∷ 123 ∷ 122 ∷ 110 ∷ 109 ∷ 107 ∷ 106 ∷ 95 ∷ 79 ∷ 62 ∷ 61 ∷ 59 ∷ 58 ∷ 47
    ∷ 31 ∷ 201 ∷ 200 ∷ 156 ∷ 151 ∷ 150 ∷ 147 ∷ 140 ∷ 135 ∷ 134 ∷ 131 ∷ 121 ∷ 120 ∷ 105 ∷ 104 ∷ 57
    ∷ 56 ∷ 240 ∷ 229 ∷ 228 ∷ 226 ∷ 225 ∷ 213 ∷ 212 ∷ 210 ∷ 209 ∷ 204 ∷ 199 ∷ 198 ∷ 195 ∷ 181 ∷ 180
    ∷ 178 ∷ 177 ∷ 165 ∷ 164 ∷ 162 ∷ 161 ∷ 124 ∷ 119 ∷ 118 ∷ 115 ∷ 108 ∷ 103 ∷ 102 ∷ 99 ∷ 94 ∷ 93
    ∷ 91 ∷ 90 ∷ 78 ∷ 77 ∷ 75 ∷ 74 ∷ 60 ∷ 55 ∷ 54 ∷ 51 ∷ 46 ∷ 45 ∷ 43 ∷ 42 ∷ 30 ∷ 29
    ∷ 27 ∷ 26 ∷ 15 ∷ 149 ∷ 148 ∷ 146 ∷ 145 ∷ 133 ∷ 132 ∷ 130 ∷ 129 ∷ 89 ∷ 88 ∷ 73 ∷ 72 ∷ 41
    ∷ 40 ∷ 25 ∷ 24 ∷ 224 ∷ 208 ∷ 197 ∷ 196 ∷ 194 ∷ 193 ∷ 176 ∷ 160 ∷ 117 ∷ 116 ∷ 114 ∷ 113 ∷ 101
    ∷ 100 ∷ 98 ∷ 97 ∷ 92 ∷ 87 ∷ 86 ∷ 83 ∷ 76 ∷ 71 ∷ 70 ∷ 67 ∷ 53 ∷ 52 ∷ 50 ∷ 49 ∷ 44
    ∷ 39 ∷ 38 ∷ 35 ∷ 28 ∷ 23 ∷ 22 ∷ 19 ∷ 14 ∷ 13 ∷ 11 ∷ 10 ∷ 144 ∷ 128 ∷ 9 ∷ 8 ∷ 192
    ∷ 112 ∷ 96 ∷ 85 ∷ 84 ∷ 82 ∷ 81 ∷ 69 ∷ 68 ∷ 66 ∷ 65 ∷ 48 ∷ 37 ∷ 36 ∷ 34 ∷ 33 ∷ 21
    ∷ 20 ∷ 18 ∷ 17 ∷ 12 ∷ 7 ∷ 6 ∷ 3 ∷ 80 ∷ 64 ∷ 32 ∷ 16 ∷ 5 ∷ 4 ∷ 2 ∷ 1 ∷ 0 ∷ []

-- Whether a phase is among some.
unfoldable pub among : ℕ → List ℕ → Bool
among x [] = false
among x (y ∷ l) = eqb x y || among x l

-- The bits of the information mask for p bytes of payload: 1 at the first 8p phases of the order, 0 at all others.
unfoldable pub information_bits : ℕ → List Bool
information_bits p = tabulate 256 (λ x. among x (take (8 * p) order))

-- The phases that a mask's bits mark, in rising order.
unfoldable pub marked_phases : List Bool → List ℕ
marked_phases [] = []
marked_phases (true ∷ l) = 0 ∷ map suc (marked_phases l)
marked_phases (false ∷ l) = map suc (marked_phases l)
