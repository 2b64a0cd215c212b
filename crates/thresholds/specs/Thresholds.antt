-- The thresholds of settings: "A table holds the 181 binary64 numbers nearest to 10^((3n-800)/200), n from 20 to 200". Definitions
-- only.
use Rattle.std.specs.Prelude.{◌≡◌, List, [], ◌∷◌, ℕ, ◌-◌, ◌≤◌, get_or}
use Rattle.thresholds.specs.Nearest.{Scale, Nearest, TableNearest}

-- "10^((3n-800)/200)"
abbrev pub half_hundredths : Scale
half_hundredths = record { slope = 3; offset = 800; root = 200 }

-- the first setting that has a threshold, and the last setting
abbrev pub first_pruning_setting : ℕ
first_pruning_setting = 20

abbrev pub last_setting : ℕ
last_setting = 200

-- the bit patterns of settings 20 to 200, by rising setting
unfoldable pub thresholds : List ℕ
thresholds =
    0x3f2a26fd472780c4 ∷ 0x3f2b12440b6b157f ∷ 0x3f2c05cf736e2e66 ∷ 0x3f2d01e9e150f1d0 ∷ 0x3f2e06e054620036 ∷
    0x3f2f150280a2ace0 ∷ 0x3f301651738f636b ∷ 0x3f30a70b778fb0b9 ∷ 0x3f313cdb80202756 ∷ 0x3f31d7ef4eb8215b ∷
    0x3f3278764071eff0 ∷ 0x3f331ea15c821a0a ∷ 0x3f33caa36330bf0e ∷ 0x3f347cb0dd59b010 ∷ 0x3f3535002c77fbae ∷
    0x3f35f3c99b41d2ff ∷ 0x3f36b9476ed9da41 ∷ 0x3f3785b5f89b257d ∷ 0x3f385953a885509c ∷ 0x3f393461204e5359 ∷
    0x3f3a1721471fe40b ∷ 0x3f3b01d95e0670ad ∷ 0x3f3bf4d11517ebd0 ∷ 0x3f3cf052a158e339 ∷ 0x3f3df4aad3669018 ∷
    0x3f3f02292eecccdf ∷ 0x3f400c9001778d91 ∷ 0x3f409cf241761219 ∷ 0x3f4132677071b10f ∷ 0x3f41cd1d342271c4 ∷
    0x3f426d42cce9b24c ∷ 0x3f4313092440a081 ∷ 0x3f43bea2dba887fc ∷ 0x3f4470445c2184f8 ∷ 0x3f452823e62c5547 ∷
    0x3f45e679a25c2acd ∷ 0x3f46ab7fb27d8f20 ∷ 0x3f4777724357954b ∷ 0x3f484a8f9f0cc5f5 ∷ 0x3f492518402162da ∷
    0x3f4a074ee52cd11b ∷ 0x3f4af178a53c2e12 ∷ 0x3f4be3dd04ec489f ∷ 0x3f4cdec60c4170b4 ∷ 0x3f4de2805d43c907 ∷
    0x3f4eef5b4b6702ca ∷ 0x3f5002d479e254ac ∷ 0x3f5092df2b18321d ∷ 0x3f5127f9b796ec29 ∷ 0x3f51c251a9680afa ∷
    0x3f52621624456492 ∷ 0x3f530777f3fed563 ∷ 0x3f53b2a99b617f20 ∷ 0x3f5463df63a51afd ∷ 0x3f551b4f6c6415a0 ∷
    0x3f55d931bc235544 ∷ 0x3f569dc0516eb698 ∷ 0x3f576937348f7a39 ∷ 0x3f583bd489e20ba8 ∷ 0x3f5915d8a4d0bb51 ∷
    0x3f59f7861b7937a0 ∷ 0x3f5ae121db02c52b ∷ 0x3f5bd2f33cab6c17 ∷ 0x3f5ccd441b9288a8 ∷ 0x3f5dd060eb4766c6 ∷
    0x3f5edc98cf22cc29 ∷ 0x3f5ff23db27292d4 ∷ 0x3f6088d230bf5ad8 ∷ 0x3f611d9251b7b9be ∷ 0x3f61b78caa8e388e ∷
    0x3f6256f0426685a7 ∷ 0x3f62fbedc77928d8 ∷ 0x3f63a6b79df1b883 ∷ 0x3f645781ef52d0f2 ∷ 0x3f650e82ba648119 ∷
    0x3f65cbf1e3b20a85 ∷ 0x3f669009469bfdc8 ∷ 0x3f675b04c703ea2a ∷ 0x3f682d2263970635 ∷ 0x3f6906a248bd674b ∷
    0x3f69e7c6e43390b7 ∷ 0x3f6ad0d4f95456b3 ∷ 0x3f6bc213b61947a8 ∷ 0x3f6cbbccc8d805c5 ∷ 0x3f6dbe4c76c334a9 ∷
    0x3f6ec9e1b335daa2 ∷ 0x3f6fdede37d052db ∷ 0x3f707ecb4eb716e3 ∷ 0x3f7113313afe4fb6 ∷ 0x3f71acce339cafd7 ∷
    0x3f724bd1233113ec ∷ 0x3f72f06a9a6ea0fb ∷ 0x3f739accdef1f567 ∷ 0x3f744b2bfa9bcaf2 ∷ 0x3f7501bdcb75ba47 ∷
    0x3f75beba1425fab8 ∷ 0x3f76825a8cf7248c ∷ 0x3f774cdaf5792964 ∷ 0x3f781e7926c0e51d ∷ 0x3f78f775264bd9f1 ∷
    0x3f79d811398ddcc3 ∷ 0x3f7ac091fa2eaa6d ∷ 0x3f7bb13e6afd94a7 ∷ 0x3f7caa600da1aca1 ∷ 0x3f7dac42f90d0b21 ∷
    0x3f7eb735f0ba1168 ∷ 0x3f7fcb8a7cb9bbfb ∷ 0x3f8074ca814d3007 ∷ 0x3f8108d66f973757 ∷ 0x3f81a216409d8e77 ∷
    0x3f8240b8c28b8bb5 ∷ 0x3f82e4ee68a0d84a ∷ 0x3f838ee959fda2a0 ∷ 0x3f843edd80f3f0b4 ∷ 0x3f84f5009ae2c039 ∷
    0x3f85b18a489fcc3d ∷ 0x3f8674b41f74fb9c ∷ 0x3f873eb9bab6a89b ∷ 0x3f880fd8cdf820dc ∷ 0x3f88e85137e3ecfc ∷
    0x3f89c86515bda14c ∷ 0x3f8ab058d7932ced ∷ 0x3f8ba0735523d202 ∷ 0x3f8c98fde383295b ∷ 0x3f8d9a446b7ecd46 ∷
    0x3f8ea49580cd82b3 ∷ 0x3f8fb8427a0ef56a ∷ 0x3f906acfc4d1add7 ∷ 0x3f90fe81ebb14be1 ∷ 0x3f919764cd9d58e9 ∷
    0x3f9235a71c5ee5cc ∷ 0x3f92d9792dd3fc14 ∷ 0x3f93830d0ab2d6ff ∷ 0x3f9432967dd1ebe0 ∷ 0x3f94e84b23f96cbd ∷
    0x3f95a4627c4319e0 ∷ 0x3f966715f90d62b1 ∷ 0x3f9730a11187030c ∷ 0x3f98014153d878f4 ∷ 0x3f98d93677f0dea0 ∷
    0x3f99b8c272fbe6e0 ∷ 0x3f9aa0298b86ed60 ∷ 0x3f9b8fb26e5b41f2 ∷ 0x3f9c87a644140d36 ∷ 0x3f9d8850c7766663 ∷
    0x3f9e92005c926d32 ∷ 0x3f9fa50628b47861 ∷ 0x3fa060db1596d45a ∷ 0x3fa0f433ab7db925 ∷ 0x3fa18cb9d6aaf90b ∷
    0x3fa22a9c2c9695ea ∷ 0x3fa2ce0ae5cecae8 ∷ 0x3fa37737ecb251aa ∷ 0x3fa42656ecaf2660 ∷ 0x3fa4db9d620a72a4 ∷
    0x3fa59742aa36710d ∷ 0x3fa6598014bb46ab ∷ 0x3fa72290f4b7fc8d ∷ 0x3fa7f2b2b300f1e7 ∷ 0x3fa8ca24e0e14f82 ∷
    0x3fa9a9294b8536ea ∷ 0x3faa900410129b5a ∷ 0x3fab7efbb076e7bb ∷ 0x3fac765928efcc46 ∷ 0x3fad76680655c785 ∷
    0x3fae7f767d2f3988 ∷ 0x3faf91d581930d84 ∷ 0x3fb056ec6ff122ae ∷ 0x3fb0e9ebab2ffa1c ∷ 0x3fb1821557d7bcac ∷
    0x3fb21f97ef20893b ∷ 0x3fb2c2a38c5a930a ∷ 0x3fb36b69fb9f788a ∷ 0x3fb41a1ec907c8b7 ∷ 0x3fb4cef750695c08 ∷
    0x3fb58a2acda3500a ∷ 0x3fb64bf26d7c9fb7 ∷ 0x3fb714895f1a7fa3 ∷ 0x3fb7e42ce613d343 ∷ 0x3fb8bb1c6d2740a6 ∷
    0x3fb999999999999a ∷ []

-- the bit pattern of setting n, for an n from 20 to 200
unfoldable pub threshold : ℕ → ℕ
unfolding thresholds
threshold n = get_or thresholds (n - first_pruning_setting) 0

-- "Nearest is stated by comparing 200th powers of whole numbers"; proved in proofs/NearestThresholds,
abbrev pub ThresholdsNearest : Type 0
ThresholdsNearest = TableNearest half_hundredths first_pruning_setting last_setting threshold

-- and there too that no other number is nearest
abbrev pub ThresholdsUnique : Type 0
ThresholdsUnique = (n pattern : ℕ) → first_pruning_setting ≤ n → n ≤ last_setting → Nearest half_hundredths n pattern → pattern ≡ threshold n
