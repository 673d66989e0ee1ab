mod SpotLaws
